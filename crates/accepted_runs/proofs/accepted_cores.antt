mod AcceptedCores
